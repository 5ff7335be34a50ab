-- What the scaled copy does to one pixel.
pub mod Scaled
pub mod Private
