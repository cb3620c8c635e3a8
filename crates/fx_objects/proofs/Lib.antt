mod Created
mod Drawing
mod Sizes
