-- Laws that other crates cite.
pub mod Table
pub mod Mapped
pub mod FromFn
pub mod Loop
pub mod Change
pub mod Turns
pub mod All
pub mod Tested
pub mod Any
pub mod Order
pub mod Strict
pub mod Value
pub mod Product
pub mod Rounded
pub mod Error
pub mod Near
pub mod Growth
pub mod Dyadic
pub mod Truncate
pub mod Bound
pub mod Floor
pub mod Nearest
pub mod Range
pub mod HalfEven
pub mod Units
pub mod Whole
pub mod Patterns
mod Compare
mod Narrowing
pub mod Signs
pub mod Blocks
pub mod Pattern
pub mod One
pub mod Parts
pub mod Refusal
pub mod Lines
mod Lists
