-- Lemmas on sheets.
pub mod Wholes
pub mod Changes
pub mod Places
