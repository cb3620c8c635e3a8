pub mod Filling
pub mod Sessions
pub mod Shaped
mod FirstAuth
