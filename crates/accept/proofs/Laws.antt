-- What an accepted play has passed, and what the sizes alone decide.
pub mod Tests
pub mod Sizes
