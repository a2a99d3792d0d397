-- The definitions that the contracts cite.
pub mod Dots
pub mod Faults
pub mod Grid
pub mod ColorLaws
pub mod GridLaws
pub mod Finding
pub mod Bytes
