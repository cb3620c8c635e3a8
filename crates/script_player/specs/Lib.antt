pub mod Play
pub mod Stops
pub mod Steps
pub mod Ends
