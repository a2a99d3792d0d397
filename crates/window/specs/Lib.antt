-- What the contracts cite.
pub mod Layer
pub mod LayerLaws
pub mod Parts
pub mod Places
pub mod Window
pub mod WindowLaws
pub mod Falling
