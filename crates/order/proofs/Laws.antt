-- The sorted list, by its members and by its places; the walk along it, and the next block from a priority on; both as arrays of 256; how many of a list pass a test.
pub mod Sort
pub mod Walk
pub mod Next
pub mod Listed
pub mod Counts
pub mod Only
