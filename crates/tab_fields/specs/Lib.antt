pub mod Contexts
pub mod Taking
