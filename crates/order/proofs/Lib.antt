-- The laws of the order and of the walk, and what the loops know.
pub mod Laws
mod Search
mod Ranks
