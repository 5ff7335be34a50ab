-- What several proofs of `leaves` share.
pub mod Read
