pub mod ExplainLaws
