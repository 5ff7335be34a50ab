-- What a record asks, and when it is replayed.
pub mod Asked
