-- The definitions that the contracts of this crate cite.
pub mod First
pub mod Orders
pub mod Sizes
