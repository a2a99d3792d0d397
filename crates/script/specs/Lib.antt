-- The definitions that the contracts cite.
pub mod Commands
pub mod Numbers
pub mod Tells
pub mod Text
pub mod Written
