mod Writing
mod Places
mod Stream
mod Selecting
