mod Ends
mod Over
