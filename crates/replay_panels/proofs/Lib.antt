-- What the proofs share.
pub mod Steps
