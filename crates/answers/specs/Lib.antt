-- What is claimed of a view of the code's answers.
pub mod Claim
