-- The runner's own tables, and what it asks to run a file.
pub mod Own
