-- The definitions of `rising`.
pub mod Runs
