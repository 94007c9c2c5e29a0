pub mod Back
pub mod Claimed
pub mod RowLists
