pub mod Blend
pub mod Picture
pub mod Lent
pub mod ColorLaws
pub mod PictureLaws
pub mod Exact
pub mod Worked
