-- What a record's copy is, and when it is replayed.
pub mod Layer
