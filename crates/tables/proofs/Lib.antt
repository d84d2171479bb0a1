pub mod FrameLaws
pub mod WalkLaws
pub mod SoundLaws
pub mod FaultLaws
