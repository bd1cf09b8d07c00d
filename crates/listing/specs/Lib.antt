pub mod Command
pub mod Person
pub mod Plain
