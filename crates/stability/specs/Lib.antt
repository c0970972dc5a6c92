-- The stability procedure of a line set (§2.6, §3.10).
pub mod Spacing
pub mod Passes
pub mod Clamps
pub mod Stability
