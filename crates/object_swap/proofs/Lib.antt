mod Commands
mod Costs
pub mod Counts
mod Flags
mod FreeLists
mod Listed
mod Making
mod Missing
pub mod Moved
pub mod Order
pub mod Orphans
mod Owned
mod Recorded
pub mod Room
pub mod Standing
mod Threaded
mod Told
mod Vacancies
mod Views
