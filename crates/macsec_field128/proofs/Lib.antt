pub mod Iterations
pub mod Sums
pub mod Additive
pub mod ProductLaws
pub mod Carryless
