-- What a recorded rundown is, and when it is replayed.
pub mod Recorded
