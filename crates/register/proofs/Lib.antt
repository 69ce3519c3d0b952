mod Answering
mod Lots
mod Searches
mod Sweeps
mod Telling
