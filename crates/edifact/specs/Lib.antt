pub mod Segments
pub mod Cutting
pub mod Laws
pub mod Scanning
pub mod Cursors
