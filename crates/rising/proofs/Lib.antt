-- The laws of `rising`.
pub mod Lists
pub mod Scans
pub mod Rooms
pub mod Inserts
pub mod Meaning
pub mod Changes
pub mod Unique
pub mod Ends
