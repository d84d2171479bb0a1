-- Document 01, section "The floor plan". Read the files in this order; the last has one sentence of "One search", on a plan (Raise).
pub mod Directions
pub mod Cells
pub mod Costs
pub mod Obeying
pub mod Floors
pub mod Grid
pub mod Reached
pub mod Toward
pub mod Raise
