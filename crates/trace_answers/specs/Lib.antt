-- The definitions of `trace_answers`.
pub mod Shown
pub mod Input
pub mod Text
