-- The definitions of `rtps_reader_proxy`.
pub mod Reader
pub mod Record
pub mod Parts
pub mod Unsent
pub mod Gaps
pub mod Acks
pub mod Fragments
