pub mod Printed
pub mod Promised
pub mod Runs
pub mod OneEnd
