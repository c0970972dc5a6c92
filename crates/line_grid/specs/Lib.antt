-- Singles that are whole multiples of 2^-13, and differences in 1/64 (request E7).
pub mod Multiple
pub mod Sixtyfourths
pub mod inner
