-- What the contracts of `forecast` cite.
pub mod Forecast
