pub mod Lists
pub mod Viewed
pub mod Views
