pub mod Commanded
pub mod Printed
pub mod Short
pub mod JobSteps
pub mod Parsed
pub mod GivenUp
mod Loads
