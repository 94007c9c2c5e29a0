pub mod Batch
pub mod Walks
pub mod Claims
