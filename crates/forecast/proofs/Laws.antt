-- The cells beside the scratch that a layer needs, the boxes by their places, the forecast beside play, worked examples.
pub mod Cells
pub mod Boxes
pub mod Tied
pub mod Examples
