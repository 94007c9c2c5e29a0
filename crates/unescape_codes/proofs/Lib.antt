pub mod Examples
pub mod Digits
pub mod Cases
