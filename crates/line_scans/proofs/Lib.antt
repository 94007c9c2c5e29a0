pub mod Hits
pub mod Places
pub mod Examples
pub mod Chunks
