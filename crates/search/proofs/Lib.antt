-- The lemmas of this crate.
pub mod Callers
pub mod Orders
pub mod Turns
