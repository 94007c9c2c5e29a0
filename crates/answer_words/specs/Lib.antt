pub mod Texts
pub mod Given
pub mod Claims
