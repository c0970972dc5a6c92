-- Laws of the stability procedure that callers cite, and what its check shows.
pub mod Written
pub mod Turns
pub mod Angles
pub mod Spread
pub mod Bounded
pub mod Checked
