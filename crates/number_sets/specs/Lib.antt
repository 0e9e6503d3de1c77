-- The definitions of `number_sets`.
pub mod Bits
pub mod Words
pub mod Calls
