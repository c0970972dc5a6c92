-- What is claimed of a line that is tried under a loss pattern (request E7).
pub mod Claim
pub mod Example
