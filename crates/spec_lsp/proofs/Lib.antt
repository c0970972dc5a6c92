pub mod Constants
pub mod Refusals
pub mod Choice
