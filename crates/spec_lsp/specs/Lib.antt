-- The line spectra of the coder in the tables' units: 32,768 make half a circle.
pub mod Resting
pub mod Decode
pub mod Quantise
