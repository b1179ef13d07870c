pub mod FilledRooms
pub mod NumbersAt
pub mod Headers
pub mod RecordsAt
pub mod Ahead
pub mod WrittenRecords
pub mod ReadAgain
