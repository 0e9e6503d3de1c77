pub mod Bools
pub mod Has
pub mod Smallest
pub mod Those
pub mod Ext
pub mod First
pub mod Append
pub mod Loops
