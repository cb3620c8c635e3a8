pub mod Counts
pub mod Journal
pub mod Region
pub mod Text
