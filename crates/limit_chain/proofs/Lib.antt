pub mod Chain
pub mod Longer
pub mod LongerFilter
