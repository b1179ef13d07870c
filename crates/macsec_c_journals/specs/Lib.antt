pub mod Calls
pub mod Space
pub mod Statuses
