-- What the proofs of `panel` share, and a law that `glass` cites.
pub mod Cut
pub mod Level
