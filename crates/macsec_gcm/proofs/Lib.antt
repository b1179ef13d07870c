pub mod CounterLanes
pub mod Iterations
pub mod KeyStreams
pub mod Opening
pub mod States
pub mod Tags
pub mod Vectors
pub mod Words
