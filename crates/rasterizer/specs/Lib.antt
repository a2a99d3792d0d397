pub mod Judge
pub mod Line
