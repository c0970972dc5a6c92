-- Filter memories of two limits beside each other (request E6).
pub mod Shortened
