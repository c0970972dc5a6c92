-- What the stages of a frame share: its samples, their windows and subframes, and what is answered of four filters.
pub mod Parts
pub mod Four
pub mod inner
