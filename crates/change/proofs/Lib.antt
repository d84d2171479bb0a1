pub mod RefusalLaws
pub mod EffectLaws
pub mod WorkLaws
pub mod Theorems
