-- The definitions of `writer_steps`.
pub mod Send
pub mod Readers
pub mod Acks
pub mod Frags
pub mod Many
