-- Each public call leaves what the definitions say.
pub mod StandingLaws
