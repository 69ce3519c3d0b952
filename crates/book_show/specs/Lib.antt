pub mod Flags
pub mod Kinds
pub mod Limits
