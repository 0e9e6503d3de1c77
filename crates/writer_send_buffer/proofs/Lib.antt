-- Laws that belong to no one function.
pub mod AtMost
pub mod Between
pub mod Ring
pub mod Slots
pub mod Sound
pub mod Locating
pub mod Steps
pub mod Window
pub mod Kept
pub mod Unique
pub mod Coherent
