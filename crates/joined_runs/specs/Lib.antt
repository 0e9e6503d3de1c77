-- The definitions of `joined_runs`.
pub mod Joined
