-- The laws of the genie: other crates cite them as `Rattle.genie.proofs.Laws`.
pub mod Laws
pub mod Strips
