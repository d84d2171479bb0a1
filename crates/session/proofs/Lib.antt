pub mod RefusalLaws
pub mod Theorems
