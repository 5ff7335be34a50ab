-- Demand 3, after each layer and after the whole rundown; what holds of boxes; that no top byte of a source shows; worked examples.
pub mod Whole
pub mod Boxes
pub mod Colors
pub mod Examples
