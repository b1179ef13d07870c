pub mod LastEnds
pub mod Entries
pub mod WithinLimits
pub mod LimitsKept
mod Loads
pub mod Commands
