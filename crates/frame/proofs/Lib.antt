-- The laws of the frame: other crates cite them as `Rattle.frame.proofs.Laws`.
pub mod Laws
pub mod Parts
