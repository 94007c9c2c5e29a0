pub mod Counts
pub mod Searched
pub mod Rows
pub mod Searching
pub mod Parts
pub mod Founded
pub mod Examples
