pub mod Ahead
pub mod Cutting
pub mod LabelLemmas
pub mod LineWords
pub mod PieceSteps
pub mod Places
