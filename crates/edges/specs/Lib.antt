-- The definitions that the contracts of this crate cite.
pub mod Side
pub mod Order
pub mod Orders
