-- Laws that belong to no one function.
pub mod Laws
pub mod SetLaws
pub mod LineLaws
pub mod Examples
