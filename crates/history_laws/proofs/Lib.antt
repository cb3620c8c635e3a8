pub mod Counts
pub mod Opened
pub mod Tables
