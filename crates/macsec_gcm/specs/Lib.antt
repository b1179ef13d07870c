pub mod Gcm
pub mod Laws
pub mod Octets
pub mod Pieces
pub mod Streams
