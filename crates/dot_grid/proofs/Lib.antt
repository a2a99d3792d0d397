pub mod Replays
pub mod Archives
