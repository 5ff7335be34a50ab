-- The box pass, along rows and along columns. Private is for private contracts alone.
pub mod Box
pub mod Refuse
pub mod Private
