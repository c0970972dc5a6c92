-- The cosine rule: whole numbers in the place of a C library's cosine and arc cosine.
pub mod Cosine
pub mod Step
pub mod Angle
pub mod inner
