pub mod Slots
pub mod Numbers
pub mod Answers
pub mod ContextCommands
pub mod Remains
