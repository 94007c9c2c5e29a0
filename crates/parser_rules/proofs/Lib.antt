pub mod Examples
pub mod Law
