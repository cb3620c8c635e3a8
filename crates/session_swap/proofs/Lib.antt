pub mod Among
pub mod Asking
mod Bringing
pub mod Commands
pub mod Counts
mod Firsts
pub mod Gaps
pub mod Handed
mod Holders
mod Leaving
mod Listing
pub mod Making
mod Missing
pub mod Moved
pub mod Numbers
pub mod Oldest
mod Ordering
pub mod Orphans
mod Owners
pub mod PlaceSet
mod Readying
pub mod Refreshed
pub mod Renewed
pub mod Rising
pub mod Sent
pub mod Standing
mod Threads
pub mod Told
mod Uses
