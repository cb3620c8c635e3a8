pub mod Asking
mod Counting
pub mod Sending
pub mod Listing
pub mod Telling
