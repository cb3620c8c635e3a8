pub mod Known
pub mod Serves
pub mod Pass
pub mod View
pub mod Turn
pub mod Examples
