-- The definitions of `trace_lines`.
pub mod Words
pub mod Sets
pub mod Lines
