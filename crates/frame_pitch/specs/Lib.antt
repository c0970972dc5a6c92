-- The stages of pitch and of shaping of a frame (request E2).
pub mod Pitch
pub mod inner
