pub mod Limits
pub mod Configs
pub mod FaultNumbers
pub mod Scis
