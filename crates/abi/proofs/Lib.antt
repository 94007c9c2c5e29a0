pub mod Writes
pub mod Example
