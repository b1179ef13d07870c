pub mod Examples
pub mod OneEnd
pub mod TextOfWorlds
pub mod Promised
pub mod Runs
pub mod Unwritten
