-- Laws that belong to no one function.
pub mod Any
pub mod Bit
pub mod First
pub mod Eight
pub mod Loops
pub mod Size
pub mod Join
pub mod Members
pub mod List
pub mod Written
pub mod Meaning
pub mod Unique
