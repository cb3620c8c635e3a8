pub mod Coming
pub mod Fair
pub mod Finishing
pub mod Parting
pub mod Sending
pub mod Together
pub mod Turning
