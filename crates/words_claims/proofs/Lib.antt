pub mod Calling
pub mod TokenBatches
pub mod ParseBatches
