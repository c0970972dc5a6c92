-- The error of a code row, and the search over rows. One notion a file.
pub mod Error
pub mod Search
pub mod inner
