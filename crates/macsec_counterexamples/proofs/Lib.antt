mod Names
pub mod Link
pub mod Restarts
