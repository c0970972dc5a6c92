-- The language in which every definition of the port is written. One notion a file.
pub mod Table
pub mod Loop
pub mod Refusal
pub mod Answered
pub mod Finite
pub mod Single
pub mod Double
pub mod inner
pub mod Narrow
pub mod Vector
pub mod Lines
pub mod Pattern
pub mod Floor
pub mod Nearest
pub mod Difference
