pub mod Ascii
pub mod Bytes
pub mod Trimming
pub mod Numbers
pub mod Refusals
