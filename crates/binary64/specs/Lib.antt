pub mod Range
pub mod Slope
pub mod Fraction
pub mod Quotient
pub mod Sum
