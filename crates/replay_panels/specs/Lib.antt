-- What a record's pass, frame or panel is, and when it is replayed.
pub mod Layer
pub mod Private
