-- The laws of `trace_words`.
pub mod Said
pub mod Unique
