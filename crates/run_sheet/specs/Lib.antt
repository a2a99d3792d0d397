-- The definitions that the contracts cite.
pub mod Sheets
pub mod Texts
