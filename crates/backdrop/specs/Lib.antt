-- The small picture behind a glass panel: the part of the canvas that it is taken from, and its bytes. Private is for private contracts alone.
pub mod Window
pub mod Picture
pub mod Private
