-- The definitions of `trace_words`.
pub mod Words
