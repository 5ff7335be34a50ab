-- Laws of a playing in steps; those of `Laws` are cited by the crates above.
pub mod Laws
mod Choice
