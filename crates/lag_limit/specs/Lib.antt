-- The limit of a caller's lags (request E6).
pub mod Limit
pub mod Choice
