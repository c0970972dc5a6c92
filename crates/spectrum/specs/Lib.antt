-- The spectrum of a frame: one stage a file, the stability with the lines.
pub mod Lines
pub mod Filters
pub mod inner
