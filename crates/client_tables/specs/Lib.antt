pub mod Kept
pub mod Lent
pub mod View
