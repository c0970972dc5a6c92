-- The history of harmonic inputs, of which the limit of the lags says how much is in use (request E6).
pub mod History
