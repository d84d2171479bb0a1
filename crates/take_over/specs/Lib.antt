-- Taking over target and hunter before a search's steps.
pub mod TakeOver
