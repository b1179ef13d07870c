pub mod Lines
pub mod Captured
pub mod Runs
pub mod Outputs
