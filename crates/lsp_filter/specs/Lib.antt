-- Lines between two sets, and the filter of a line set. One notion a file.
pub mod Interpolate
pub mod Polynomial
