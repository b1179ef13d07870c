pub mod PlannedKeys
pub mod Slots
pub mod Answers
