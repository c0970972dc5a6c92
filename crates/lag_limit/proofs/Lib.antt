-- Laws that other crates cite.
pub mod Known
