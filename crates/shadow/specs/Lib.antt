-- What a soft shadow does to one pixel.
pub mod Shadow
pub mod Private
