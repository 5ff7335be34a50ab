-- The laws of the genie.
pub mod Genie
