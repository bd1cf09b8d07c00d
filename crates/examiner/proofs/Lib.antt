pub mod Values
pub mod Measures
pub mod Stretches
pub mod Codes
pub mod Rules
pub mod PartSteps
pub mod Passes
pub mod Rests
