-- How far both ends of a line lie apart (request E7).
pub mod Apart
pub mod inner
