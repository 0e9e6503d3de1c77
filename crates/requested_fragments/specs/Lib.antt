-- The definitions of `requested_fragments`.
pub mod Entries
pub mod Words
pub mod Table
pub mod Drain
