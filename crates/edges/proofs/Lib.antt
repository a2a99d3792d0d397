-- The lemmas of this crate.
pub mod Products
pub mod Limits
pub mod Laws
pub mod Ranks
pub mod Numbers
