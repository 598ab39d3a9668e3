mod Growing
mod Packets
mod Following
mod Readable
mod Sendable
