pub mod Clear
pub mod Trials
