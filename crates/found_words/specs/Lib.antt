pub mod Found
pub mod Claims
