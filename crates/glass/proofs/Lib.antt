-- The laws of the glass panel, and what the proofs share.
pub mod Laws
pub mod Means
pub mod Sizes
pub mod FlatRow
pub mod SoftRow
pub mod RunRow
pub mod Entry
pub mod Signs
pub mod Whole
