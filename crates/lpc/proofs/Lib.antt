-- Laws behind the functions' proofs, and those that callers cite.
mod Orders
pub mod Leading
pub mod Stops
