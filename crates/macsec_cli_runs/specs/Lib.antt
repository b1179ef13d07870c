pub mod Failures
pub mod Captures
pub mod SomeText
pub mod Words
pub mod Ends
