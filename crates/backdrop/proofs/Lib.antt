-- The laws, and what the proofs share.
pub mod Laws
pub mod Whole
pub mod Bytes
pub mod Shrunk
pub mod Tint
pub mod Blur
