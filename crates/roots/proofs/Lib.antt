-- Laws behind the functions' proofs, and those that callers cite.
pub mod Written
pub mod Fold
pub mod Mapped
pub mod Turns
pub mod Halvings
pub mod Walk
pub mod Inside
