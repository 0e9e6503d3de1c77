-- The laws of `trace_run`.
pub mod WriteLaws
pub mod FollowLaws
pub mod Unique
