-- The definitions of `reader_list`.
pub mod Readers
pub mod Slots
pub mod Ahead
