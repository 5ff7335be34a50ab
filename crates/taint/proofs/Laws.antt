-- Demand 3 for any painter that keeps its laws, and 01's rules of the stain.
pub mod Sets
pub mod Stain
pub mod Agree
