-- The definitions of `trace_readers`.
pub mod State
pub mod Rooms
pub mod Requests
pub mod Fragments
