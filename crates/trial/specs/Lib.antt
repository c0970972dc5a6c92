-- A line tried under a loss pattern, and all that is printed for it (request E7).
pub mod Losses
pub mod inner
