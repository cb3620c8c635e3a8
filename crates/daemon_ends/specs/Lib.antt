pub mod Found
pub mod Stop
