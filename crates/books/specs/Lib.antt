pub mod Tables
pub mod Notation
pub mod Trial
pub mod Recadv
pub mod RecadvExamples
