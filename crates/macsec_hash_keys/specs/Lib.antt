pub mod Collisions
pub mod Counting
pub mod EachKey
pub mod Field
pub mod Forgeries
pub mod Polynomials
pub mod Tags
