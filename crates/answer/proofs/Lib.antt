-- What the crates above cite.
pub mod Laws
