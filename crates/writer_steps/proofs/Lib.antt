-- Laws that belong to no one function.
pub mod Repeats
pub mod Lies
pub mod Settles
pub mod Together
pub mod Moves
pub mod Asks
pub mod Unique
pub mod StepsInPart
