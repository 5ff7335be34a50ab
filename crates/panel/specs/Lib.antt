-- What the contracts of `panel` cite. `Private` is cited for private functions of `glass` alone.
pub mod Panel
pub mod Rim
pub mod Private
