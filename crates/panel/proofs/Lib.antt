pub mod Places
pub mod Loans
pub mod Exact
