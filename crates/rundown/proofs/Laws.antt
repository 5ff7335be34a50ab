-- What the tests of a rundown say when they pass; that they still pass after add and after remove, that the blocks then ascend and are the set that they
-- were, and that a layer removed and added again gives the bytes back; that the tests read no byte behind the last block.
pub mod Held
pub mod Blocks
pub mod Sealed
pub mod Without
pub mod Kept
pub mod Restores
pub mod Sets
pub mod Front
pub mod Examples
