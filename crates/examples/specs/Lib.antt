-- The definitions of `examples`.
pub mod Table
