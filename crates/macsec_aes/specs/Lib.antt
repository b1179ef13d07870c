pub mod Field
pub mod Aes
pub mod Keys
pub mod Schedule
pub mod Laws
