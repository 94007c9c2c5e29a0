pub mod Filling
pub mod Delivery
pub mod Ruling
pub mod Examples
