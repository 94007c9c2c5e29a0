pub mod Calls
pub mod Batches
