pub mod Draws
pub mod Answers
pub mod Piles
pub mod Replay
pub mod Archive
pub mod Worked
pub mod PilesLemmas
