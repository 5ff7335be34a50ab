-- Why `dearest` meets its contract, and what callers may rest on.
pub mod Laws
mod Answers
