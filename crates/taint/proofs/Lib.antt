-- The laws of the stain.
pub mod Laws
