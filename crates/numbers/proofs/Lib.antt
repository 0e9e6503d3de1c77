-- Laws that belong to no one function.
pub mod Refused
pub mod Answered
pub mod Ranks
pub mod Next
pub mod One
