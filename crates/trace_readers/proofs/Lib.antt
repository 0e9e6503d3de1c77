-- The laws of `trace_readers`.
pub mod Parts
pub mod AckLaws
pub mod SentLaws
pub mod FragLaws
