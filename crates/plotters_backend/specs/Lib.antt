pub mod Refusals
pub mod Color
pub mod Axis
pub mod Surface
pub mod Sizes
pub mod Run
pub mod Laws
