-- The definitions of `other_end`; what is promised is in Demand3.
pub mod Model
pub mod Calls
pub mod System
pub mod Rounds
pub mod Coherent
pub mod AsCalled
pub mod Demand3
