pub mod Turns
pub mod Cells
pub mod Blends
pub mod Steps
pub mod Slants
