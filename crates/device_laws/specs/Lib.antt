pub mod Effects
pub mod OtherHandles
pub mod Remains
