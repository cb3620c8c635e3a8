pub mod Giving
pub mod Tallying
pub mod Lines
pub mod CommandBytes
pub mod GoodLines
pub mod Telling
pub mod Few
pub mod Row
