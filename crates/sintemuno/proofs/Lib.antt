-- Laws that belong to no one function.
pub mod HandedMut
pub mod Handed1
pub mod Handed0
