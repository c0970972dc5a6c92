-- One call a frame (request E2): the stages of document 01 in a chain, over a coder's memories.
pub mod Coder
pub mod Windows
pub mod Frame
pub mod inner
