pub mod ChangedRows
pub mod Plans
pub mod ReadAgain
pub mod Sealing
pub mod SentTags
pub mod TxRows
pub mod Writes
