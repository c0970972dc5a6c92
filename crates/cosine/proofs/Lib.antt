-- Laws of the cosine rule that callers cite.
pub mod Blend
pub mod Exact
pub mod Monotone
pub mod Least
pub mod Held
pub mod Whole
pub mod Nearest
pub mod Back
pub mod Halfway
pub mod Mapped
pub mod Written
mod Segment
pub mod Below
pub mod Reach
