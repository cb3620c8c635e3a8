pub mod Most
pub mod Listed
pub mod Named
pub mod Leaving
pub mod Owners
pub mod Histories
pub mod Clients
