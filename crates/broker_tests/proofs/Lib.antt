mod AtBase
pub mod Computing
mod Driving
mod Full
mod Saved
