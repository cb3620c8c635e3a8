mod Sent
mod Found
mod Left
mod Reading
mod Values
