-- The marked cases.
pub mod Marked
