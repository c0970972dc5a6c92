-- What a tally counts.
pub mod Counted
