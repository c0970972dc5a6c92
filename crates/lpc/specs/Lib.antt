-- Linear prediction of one window (§2.4). One notion a file.
pub mod Levinson
pub mod Analysis
pub mod inner
