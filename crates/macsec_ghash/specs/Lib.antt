pub mod Ghash
pub mod Laws
pub mod Powers
pub mod Running
pub mod Tables
