-- Laws that other crates cite.
mod Powers
pub mod Edge
pub mod Settings
pub mod Shown
pub mod Half
pub mod Limit
