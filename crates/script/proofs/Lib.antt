pub mod Cut
pub mod Number
pub mod Gather
mod Loans
pub mod Places
pub mod Sofar
pub mod Spoken
