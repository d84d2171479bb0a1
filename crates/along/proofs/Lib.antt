pub mod PairLaws
pub mod AlongLaws
pub mod Theorems
pub mod CaseLaws
