-- The laws of the scaled copy: other crates cite them as `Rattle.scaled.proofs.Laws`. `Boxes` and `Lent` serve the genie too.
pub mod Laws
pub mod Boxes
pub mod Lent
pub mod Lines
pub mod Rows
