pub mod RefusalLaws
pub mod SearchLaws
