pub mod Playback
pub mod Reports
