pub mod Scans
pub mod Claims
