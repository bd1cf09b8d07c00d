pub mod Form
pub mod Person
pub mod Plain
