-- Numbers as text, and what is printed (request E7).
pub mod Printed
pub mod inner
