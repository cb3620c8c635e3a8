pub mod Counting
pub mod RegionLemmas
pub mod EntryBytes
pub mod Writing
