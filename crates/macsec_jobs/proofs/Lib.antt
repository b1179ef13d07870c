pub mod SameKeys
mod Usable
mod Opened
mod Delivered
