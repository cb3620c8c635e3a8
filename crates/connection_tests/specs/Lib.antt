pub mod Book
pub mod Turns
