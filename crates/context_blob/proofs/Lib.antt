mod Framing
mod Opening
