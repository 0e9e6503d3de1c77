-- Laws that belong to no one function.
pub mod Laid
pub mod Same
pub mod Meaning
