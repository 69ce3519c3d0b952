pub mod Searches
pub mod Judged
mod Ranges
mod Links
mod Flags
mod Walked
mod Leaving
