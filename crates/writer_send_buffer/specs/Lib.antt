-- The definitions of `writer_send_buffer`.
pub mod Flow
pub mod Buffer
pub mod Samples
pub mod History
