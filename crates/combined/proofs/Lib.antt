-- Laws of the step, of the arrays that it alters, of the history and of the limit.
pub mod History
pub mod Limit
pub mod Steps
pub mod Stands
