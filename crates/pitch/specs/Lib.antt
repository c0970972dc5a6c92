-- Open-loop pitch (§2.9) and the settings of harmonic noise shaping (§2.11). One notion a file.
pub mod Pitch
pub mod Gate
pub mod Shaping
pub mod inner
