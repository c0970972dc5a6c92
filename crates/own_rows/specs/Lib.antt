-- Code rows that a caller lends.
pub mod Row
pub mod Own
