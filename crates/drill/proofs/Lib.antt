pub mod NumberLaws
pub mod PlayLaws
pub mod PieceLaws
pub mod LengthLaws
pub mod CaseLaws
pub mod Theorems
