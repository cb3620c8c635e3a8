pub mod Labels
pub mod Places
pub mod LineItem
pub mod Lines
pub mod Pieces
