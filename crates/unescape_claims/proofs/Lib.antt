pub mod Valid
pub mod Entries
pub mod Shorter
pub mod ByText
pub mod Readable
pub mod Texts
