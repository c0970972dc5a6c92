-- Laws that other crates cite, and laws of the code.
pub mod Signs
pub mod Passing
pub mod Form
pub mod Loaded
pub mod Image
pub mod Parts
