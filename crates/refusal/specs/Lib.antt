-- Document 01's refusals and their numbers.
pub mod Numbers
