pub mod Logs
pub mod Ends
pub mod Sound
pub mod Kept
pub mod Places
pub mod Answers
