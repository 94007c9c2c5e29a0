pub mod Unescape
pub mod Walk
pub mod Texts
