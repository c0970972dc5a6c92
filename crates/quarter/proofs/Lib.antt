pub mod Each
pub mod Rows
pub mod Lookup
pub mod Entry
pub mod Fall
pub mod Doubling
pub mod Neighbour
pub mod Search
