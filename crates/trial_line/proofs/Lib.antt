mod Arrived
mod Running
pub mod Tried
mod Told
mod Prefix
pub mod Printed
pub mod Example
