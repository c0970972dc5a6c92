pub mod Quarter
pub mod Rules
pub mod inner
