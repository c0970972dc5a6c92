pub mod Whole
pub mod Beside
