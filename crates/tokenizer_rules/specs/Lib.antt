pub mod Plan
pub mod Cursor
