pub mod Listening
pub mod Ready
