-- The definitions of `reader_record`.
pub mod Whole
pub mod Acknowledged
pub mod Play
pub mod AllSent
pub mod InPart
