pub mod Texts
pub mod Sound
pub mod Weight
pub mod Answers
pub mod Readings
pub mod Claimed
pub mod Places
