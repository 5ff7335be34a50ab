-- What a record holds, what is counted and reported, and what a call of a closure gives.
pub mod Calls
pub mod Record
