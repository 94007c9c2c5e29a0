pub mod Outcomes
pub mod Stepping
pub mod Claims
