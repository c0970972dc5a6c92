-- Laws that other crates cite.
pub mod Stages
pub mod Range
