-- A coder and a frame as a caller lends them.
pub mod Frame
