pub mod Grammar
pub mod Fields
pub mod Parsed
pub mod Output
pub mod Faults
pub mod Lines
pub mod Runs
