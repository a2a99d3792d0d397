pub mod Counting
pub mod Parity
pub mod Products
pub mod Places
pub mod Lying
pub mod Boxes
pub mod Alphas
pub mod Draws
pub mod Rising
pub mod Pixels
pub mod HoleSpill
mod Examples
