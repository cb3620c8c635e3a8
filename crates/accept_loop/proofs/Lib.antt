pub mod Closing
pub mod Linking
pub mod Present
