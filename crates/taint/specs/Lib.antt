-- The stain of a list of layers.
pub mod Stain
