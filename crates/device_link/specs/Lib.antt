pub mod Carried
pub mod Link
pub mod Receive
pub mod Watched
