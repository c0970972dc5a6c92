-- The autocorrelation of one window (§2.4).
pub mod Correlation
