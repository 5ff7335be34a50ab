-- Laws that belong to no one function; those of `Laws` are cited by the crates above.
pub mod Laws
mod Walk
