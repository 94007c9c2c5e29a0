pub mod Placing
pub mod Decimals
pub mod Turns
pub mod Examples
