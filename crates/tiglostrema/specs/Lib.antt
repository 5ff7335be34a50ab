-- The library's version.
pub mod Version
