pub mod Unclear
