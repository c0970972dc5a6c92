-- Laws that other crates cite.
pub mod Statuses
pub mod Told
