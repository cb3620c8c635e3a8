pub mod Greatest
pub mod Steps
