pub mod StepLaws
pub mod LoopLaws
