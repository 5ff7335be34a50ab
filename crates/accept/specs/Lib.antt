-- What the contract of `test_all` cites.
pub mod Tests
pub mod Private
