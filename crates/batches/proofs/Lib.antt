pub mod Branching
pub mod Taking
pub mod Single
pub mod Following
pub mod Batching
pub mod Walking
pub mod Examples
