-- What the contracts of `judge` cite besides the definitions of `block`.
pub mod Private
