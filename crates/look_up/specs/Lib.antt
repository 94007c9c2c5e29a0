pub mod Entries
pub mod Search
pub mod Claims
