pub mod Tables
pub mod Settled
pub mod Listing
pub mod Replies
pub mod Costs
pub mod Moves
pub mod Dropping
