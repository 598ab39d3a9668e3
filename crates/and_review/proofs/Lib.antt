mod Ticks
mod Begun
mod Keyed
