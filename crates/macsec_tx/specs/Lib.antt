pub mod Tags
pub mod Transmit
pub mod Commands
pub mod Rows
pub mod Answers
pub mod Laws
