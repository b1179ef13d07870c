mod Names
mod Listed
mod Origins
mod Sends
mod InOrder
mod RowSteps
pub mod AheadInside
mod AheadEnds
mod AheadPast
mod Pushed
pub mod AheadForgets
pub mod Examples
mod ForgettingEnds
mod RenewingSteps
mod RenewingEnds
mod RenewingSaved
mod RenewingLists
pub mod Forgetting
mod RunsWith
pub mod RenewingKeepers
pub mod RenewingAhead
mod RenewingSends
mod RenewingOrigins
mod RenewingKeys
mod RenewingPast
mod OneRun
mod RenewingOrder
mod OnDisk
mod Premises
mod Consequences
mod OnDiskOrder
mod OnDiskHappenings
mod RenewingOutputs
