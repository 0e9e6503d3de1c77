-- The laws of `trace_answers`.
pub mod Laws
pub mod InputLaws
pub mod PieceLaws
pub mod LineMeaning
pub mod PiecesMeaning
pub mod Before
pub mod Unique
