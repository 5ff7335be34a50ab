-- What the contract of `stain` cites, and what private contracts do.
pub mod Map
pub mod Private
