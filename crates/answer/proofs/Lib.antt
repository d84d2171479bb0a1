pub mod WayLaws
pub mod AnswerLaws
