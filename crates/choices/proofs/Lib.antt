pub mod AskLaws
pub mod KeyLaws
pub mod ChoiceLaws
