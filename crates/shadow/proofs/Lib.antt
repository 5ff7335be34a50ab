-- The laws of `shadow_rrect`: other crates cite them as `Rattle.shadow.proofs.Laws`.
pub mod Laws
pub mod Rows
