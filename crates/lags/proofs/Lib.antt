-- Laws that other crates cite.
mod Sums
mod Lanes
pub mod Turns
pub mod Window
pub mod Winner
pub mod Standing
pub mod Greatest
pub mod Preferred
