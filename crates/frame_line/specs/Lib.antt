-- Whole frames at both ends of a line, and what is claimed of them.
pub mod Decoder
pub mod Frames
pub mod Claim
