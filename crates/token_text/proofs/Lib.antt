pub mod Matching
pub mod Examples
