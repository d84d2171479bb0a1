pub mod FreshLaws
pub mod ThroughLaws
pub mod Theorems
pub mod CaseLaws
