-- What the contracts of `glass` cite. `Private` is cited by private functions alone.
pub mod Places
pub mod Flat
pub mod General
pub mod Glass
pub mod Private
