-- What the contracts of `begin` and `step` cite, and lists of such calls.
pub mod Steps
pub mod Private
