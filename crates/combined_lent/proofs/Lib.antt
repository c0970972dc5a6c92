-- What the contracts of a lent memory rest on.
pub mod Kept
