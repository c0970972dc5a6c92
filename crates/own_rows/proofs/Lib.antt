-- Laws that other crates cite.
pub mod Places
pub mod Rows
