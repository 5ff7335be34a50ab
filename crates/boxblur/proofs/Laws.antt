-- The laws of the box pass: what its means are, and how far it carries.
pub mod Mean
pub mod Reach
