pub mod EntryLaws
pub mod AnewLaws
pub mod FoundLaws
pub mod FreshLaws
pub mod SmallLaws
pub mod AimLaws
pub mod BeginLaws
pub mod ParentLaws
