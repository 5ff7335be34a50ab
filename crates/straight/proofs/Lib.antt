-- The laws of the straight copy: other crates cite them as `Rattle.straight.proofs.Laws`.
pub mod Laws
pub mod Rows
