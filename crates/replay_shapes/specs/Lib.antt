-- What a record's layer is, and when it is replayed.
pub mod Layer
