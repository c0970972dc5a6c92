pub mod Drift
pub mod Powers
mod Each
pub mod Counts
pub mod Rebuild
pub mod Held
pub mod Turns
pub mod Rejoin
