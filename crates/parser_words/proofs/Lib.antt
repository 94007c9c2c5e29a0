pub mod Tests
pub mod Sections
pub mod Back
pub mod Slotted
pub mod Restoring
pub mod Claimed
