-- The combined filter: its memory, one sample through it, and one subframe.
pub mod Memory
pub mod Cascade
pub mod Run
pub mod inner
