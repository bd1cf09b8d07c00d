pub mod Splits
pub mod CharacterSteps
pub mod Lawfulness
pub mod Headers
