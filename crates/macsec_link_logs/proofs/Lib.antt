pub mod LiveTable
pub mod Heard
pub mod Commanded
pub mod SentLogs
pub mod SentPlaces
pub mod Logged
