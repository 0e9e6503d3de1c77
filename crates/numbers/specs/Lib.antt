-- The definitions of `numbers`.
pub mod Capacities
pub mod Number
pub mod Refusals
pub mod Refusal
pub mod Answers
pub mod Promise
pub mod Cursor
