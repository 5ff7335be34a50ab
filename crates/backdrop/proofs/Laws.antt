-- The laws of the window and of the small picture: other crates cite them as `Rattle.backdrop.proofs.Laws`.
pub mod Window
pub mod Picture
