-- What is proved of whole frames, and the laws behind it.
mod Chain
pub mod Refused
pub mod Seven
mod Accepted
mod Counted
mod Finite
pub mod Words
pub mod Whole
mod Cosines
mod Reached
mod Kept
pub mod Frames
mod Levinson
mod Given
mod Windows
pub mod Stages
pub mod Silence
