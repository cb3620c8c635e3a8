mod Capabilities
mod FreeSlots
mod Listed
mod Numbers
mod Saving
mod Standing
