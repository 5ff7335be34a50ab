-- What the genie does to a canvas.
pub mod Genie
pub mod Private
