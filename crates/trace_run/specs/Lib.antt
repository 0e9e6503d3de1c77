-- The definitions of `trace_run`.
pub mod Writer
pub mod Writes
pub mod Follow
