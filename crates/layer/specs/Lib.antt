-- One layer of a rundown: its kind, its box, what the stain sees of it, and what it paints.
pub mod Layer
pub mod Private
