pub mod Claims
pub mod Opened
pub mod Rests
