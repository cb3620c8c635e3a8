mod Trimming
mod Writing
