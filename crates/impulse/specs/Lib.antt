-- The response to the unit impulse.
pub mod Impulse
