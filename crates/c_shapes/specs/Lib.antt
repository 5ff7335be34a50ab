-- What the contracts of `shapes` cite beside the definitions of the crates behind them.
pub mod In
