-- The definitions of `trace_text`.
pub mod Answers
pub mod Cuts
