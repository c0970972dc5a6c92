-- Laws that other crates cite.
pub mod Grid
pub mod Multiples
pub mod Sixtyfourths
pub mod Running
pub mod RoundedUp
pub mod Placed
