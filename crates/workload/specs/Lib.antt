pub mod Ready
pub mod Reading
