pub mod Clients
pub mod Left
pub mod Listed
pub mod Owners
pub mod Picks
pub mod Views
