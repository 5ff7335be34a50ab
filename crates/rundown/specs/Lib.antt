-- What the contracts of `rundown` cite.
pub mod Tests
pub mod Kept
pub mod Private
