-- The laws of `trace_text`.
pub mod Puts
pub mod CutLaws
pub mod LineLaws
pub mod Unique
