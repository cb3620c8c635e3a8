pub mod Script
pub mod Calls
pub mod Plays
pub mod Workload
pub mod Summary
pub mod Examples
