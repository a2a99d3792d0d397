-- The definitions that the contracts of this crate cite.
pub mod Live
pub mod Marking
pub mod Walking
pub mod Rims
pub mod Boxing
pub mod Sweeping
pub mod Polygon
