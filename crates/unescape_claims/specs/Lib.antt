pub mod Claims
pub mod ByText
pub mod Readable
pub mod Texts
