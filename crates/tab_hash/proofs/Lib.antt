mod Deriving
mod Hiding
mod Padding
