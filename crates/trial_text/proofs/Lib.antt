pub mod Digits
pub mod First
pub mod Short
