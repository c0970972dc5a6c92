pub mod Live
pub mod Printing
mod Going
pub mod Inside
