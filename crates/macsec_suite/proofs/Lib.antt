pub mod ClearParts
pub mod KeyLemmas
mod Checksums
pub mod KeyCount
pub mod KeyIndex
pub mod EqualIvs
pub mod Cuts
