pub mod Gathering
pub mod NumberLemmas
pub mod PathLemmas
pub mod SeedLemmas
pub mod WordLemmas
pub mod WordLimits
