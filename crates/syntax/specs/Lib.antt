pub mod Bytes
pub mod Marks
pub mod Faults
pub mod Split
pub mod Cursors
