pub mod Ends
pub mod Ahead
pub mod Renewing
pub mod Loading
pub mod Space
pub mod Limits
pub mod Answers
pub mod Rests
