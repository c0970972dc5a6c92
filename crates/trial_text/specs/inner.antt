pub mod First
pub mod Value
