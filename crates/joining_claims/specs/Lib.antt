pub mod Raising
pub mod Tokens
pub mod Alike
pub mod Joined
pub mod Never13
pub mod TopSort
