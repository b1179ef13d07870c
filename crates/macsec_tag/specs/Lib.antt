pub mod Limits
pub mod Tag
pub mod Frame
pub mod Table
pub mod FaultNumbers
pub mod Standing
pub mod Read
pub mod Laws
