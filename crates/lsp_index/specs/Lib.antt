-- The 24-bit index of a line set.
pub mod Index
