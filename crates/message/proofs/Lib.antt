pub mod Trials
pub mod RowTests
pub mod RowExamples
pub mod Levels
pub mod Afters
pub mod Completions
pub mod Nexts
pub mod Standings
pub mod Follows
pub mod WalkLaws
pub mod Clearness
mod Searches
mod Walks
pub mod Fills
