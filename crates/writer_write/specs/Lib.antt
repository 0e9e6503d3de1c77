-- The definitions of `writer_write`.
pub mod Write
pub mod Places
pub mod Coherent
pub mod InPlace
pub mod Turns
pub mod Standing
