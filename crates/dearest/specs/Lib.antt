-- What the contract of `dearest` cites.
pub mod Dearest
