pub mod Tables
pub mod States
pub mod Expansion
pub mod Products
pub mod Inverses
pub mod SBox
