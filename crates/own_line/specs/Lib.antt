-- What is claimed of rows that a file has brought in.
pub mod Claim
