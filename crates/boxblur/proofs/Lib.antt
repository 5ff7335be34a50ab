-- The laws of the box pass: other crates cite them as `Rattle.boxblur.proofs.Laws`.
pub mod Laws
pub mod Sums
pub mod Pass
pub mod Refusal
