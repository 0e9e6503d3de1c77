-- The theorems of `reader_record`.
pub mod Whole
pub mod Kept
pub mod Steps
pub mod Acknowledged
pub mod InPart
pub mod UnsentInPart
pub mod GapsInPart
pub mod AckInPart
pub mod FragsInPart
pub mod PendingGap
pub mod Asked
pub mod AllSent
