-- Lemmas on dots, pairs and their bytes.
pub mod Pairs
pub mod Laying
pub mod Cuts
pub mod Ways
pub mod Coded
pub mod Writing
