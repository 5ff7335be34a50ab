-- The laws of the edge: other crates cite them as `Rattle.edge.proofs.Laws` and `Rattle.edge.proofs.Corner`.
pub mod Laws
pub mod Corner
pub mod Held
