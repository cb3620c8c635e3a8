pub mod Device
pub mod Own
pub mod Use
