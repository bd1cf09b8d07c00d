pub mod Measuring
pub mod Texts
pub mod Parts
pub mod Checking
pub mod Passing
