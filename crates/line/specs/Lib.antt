-- Both ends of a line turn by turn, and what is claimed of them.
pub mod Line
pub mod Claim
pub mod Answers
