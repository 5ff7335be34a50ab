-- The order in which layers are painted, and the next one from a priority on.
pub mod Order
pub mod Private
