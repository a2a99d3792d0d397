pub mod Runs
pub mod Lays
