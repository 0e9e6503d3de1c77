-- Laws that belong to no one function.
pub mod Parts
pub mod Walks
pub mod Tells
pub mod Writes
pub mod Unchanged
pub mod WholeRooms
pub mod Standing
pub mod Readers
pub mod Unique
