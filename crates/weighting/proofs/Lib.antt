-- Laws of the filter's state, and of the delays that hold it.
pub mod Delay
pub mod Running
