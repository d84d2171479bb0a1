pub mod ByteLaws
pub mod PartLaws
pub mod ActionLaws
pub mod TrailerLaws
pub mod WriteLaws
pub mod Theorems
pub mod CaseLaws
