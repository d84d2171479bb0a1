pub mod FileLaws
pub mod NumberLaws
