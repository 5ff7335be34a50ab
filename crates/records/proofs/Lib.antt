-- What the proofs share, and a law for the programs.
pub mod Steps
pub mod Lines
pub mod Calls
pub mod Laws
