pub mod FaultNumbers
