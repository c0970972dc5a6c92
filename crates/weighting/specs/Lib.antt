-- The formant perceptual weighting filter: its taps, and one subframe through it.
pub mod Taps
pub mod Filter
pub mod inner
