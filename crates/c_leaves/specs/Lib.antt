-- What the contracts of `leaves` cite beside the definitions of the crates behind them.
pub mod Out
