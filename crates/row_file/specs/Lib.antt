-- A file of code rows: how it is read, and how it is written.
pub mod RowFile
pub mod Image
pub mod inner
