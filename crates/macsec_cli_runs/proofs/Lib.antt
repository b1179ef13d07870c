pub mod Flushed
pub mod FlushedText
pub mod Examples
pub mod Matched
pub mod Plain
