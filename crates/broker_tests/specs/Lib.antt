pub mod Driven
pub mod Examples
