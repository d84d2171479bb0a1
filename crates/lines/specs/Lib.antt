-- The lines that are printed: each answer's text.
pub mod Lines
