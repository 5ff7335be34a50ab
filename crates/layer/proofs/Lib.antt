-- The laws of a layer, and what it needs by its kind: other crates cite them as `Rattle.layer.proofs.Laws` and `Rattle.layer.proofs.ByKind`.
pub mod Laws
pub mod ByKind
