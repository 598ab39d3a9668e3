mod Moved
mod Newer
mod Places
