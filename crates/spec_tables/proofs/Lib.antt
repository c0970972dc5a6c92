pub mod Bands
pub mod Bounds
pub mod BuiltIn
pub mod Rows
pub mod Lines
