-- What lent buffers hold.
pub mod Lent
pub mod Memory
