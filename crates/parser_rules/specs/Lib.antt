pub mod Ruling
pub mod Numbers
pub mod Judging
