pub mod Rights
pub mod Found
pub mod Passes
pub mod Walks
pub mod Withdrawals
