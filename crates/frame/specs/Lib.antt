-- The pixel rule of the secure frame. `Private` is cited by private functions alone.
pub mod Frame
pub mod Private
