-- What only functions of the code cite on their way: no contract of an operation rests on it, and no reader need believe it.
pub mod Told
