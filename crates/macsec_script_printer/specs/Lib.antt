pub mod Refusals
pub mod Outcomes
pub mod Counters
pub mod Numbers
pub mod Printing
pub mod OneEnd
