-- The roots of a cosine series. One notion a file.
pub mod Clenshaw
pub mod Root
pub mod inner
