-- What the contracts of `block` cite: the numbers in a block's bytes, the layout, the fields, which bytes a kind uses, the ranges, and the tests 4 to 7 and 15.
pub mod Layout
pub mod Bytes
pub mod Fields
pub mod Form
pub mod Ranges
pub mod Verdict
