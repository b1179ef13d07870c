pub mod TciBits
pub mod ByPlace
pub mod ByGrammar
pub mod Readings
