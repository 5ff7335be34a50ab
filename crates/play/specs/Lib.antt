-- What the contract of `play` cites.
pub mod Play
