mod Counting
pub mod Largest
