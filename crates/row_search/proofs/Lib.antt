pub mod Four
pub mod Searching
pub mod Least
