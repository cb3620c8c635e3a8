pub mod View
pub mod Rule
