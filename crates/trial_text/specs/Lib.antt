-- A loss pattern as text (request E7).
pub mod Pattern
pub mod Answers
pub mod inner
