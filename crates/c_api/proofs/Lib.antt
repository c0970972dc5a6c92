-- Laws that other crates cite.
pub mod Lent
