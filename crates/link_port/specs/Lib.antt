pub mod Memory
pub mod Port
pub mod Standard
