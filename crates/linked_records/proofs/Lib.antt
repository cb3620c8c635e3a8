pub mod Chains
pub mod Threading
pub mod Holding
pub mod Seen
pub mod Changes
