-- Lemmas that the proofs share.
pub mod Answered
pub mod Counts
pub mod Exact
pub mod ExactFill
pub mod Figures
pub mod Fills
pub mod LessLast
pub mod Names
pub mod Pieces
pub mod Spaced
pub mod Written
