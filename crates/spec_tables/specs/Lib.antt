-- The Recommendation's tables, the bands, and a code row. One notion a file.
pub mod Band
pub mod Codebook
pub mod Rows
pub mod Bounds
pub mod Tables
pub mod Window
