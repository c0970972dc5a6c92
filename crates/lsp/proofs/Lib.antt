-- Laws behind the functions' proofs, and those that callers cite.
pub mod Paired
pub mod Series
mod Turns
mod Falling
pub mod Inside
pub mod Strict
