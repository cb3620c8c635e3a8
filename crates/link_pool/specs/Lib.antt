pub mod Endings
pub mod Hands
pub mod Outcomes
pub mod Servers
pub mod Services
pub mod Starts
pub mod Turns
