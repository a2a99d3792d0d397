pub mod Lists
pub mod Outline
pub mod Sweep
pub mod Filling
pub mod Mixing
