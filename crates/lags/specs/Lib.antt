-- Lags of the weighted speech: their sums, and the search over them.
pub mod Lags
pub mod Search
pub mod inner
