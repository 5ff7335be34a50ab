-- What callers may rest on, whichever block is shown: what it is (`shown`), how it plays (`plays`, `foretold`), and that no panel with its blur needs more (`most`).
pub mod Most
pub mod Fields
pub mod Shown
pub mod Plays
pub mod Examples
