-- The laws of a layer that demand 3 asks for (see `Rattle.taint.proofs.Laws.Agree`), and that a layer is its block's bytes alone.
pub mod Alone
pub mod Tests
pub mod EachKind
pub mod Glass
pub mod Painter
