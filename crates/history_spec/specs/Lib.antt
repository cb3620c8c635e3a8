pub mod Entry
pub mod AuditText
pub mod Table
pub mod Told
pub mod Cancels
pub mod Examples
