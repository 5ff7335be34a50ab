-- Laws that belong to no one function; those of `Laws` and of `Each` are cited by the crates above.
pub mod Laws
pub mod Each
mod Firsts
mod Moves
mod Blocks
mod Swap
mod Select
