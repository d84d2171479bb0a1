-- What one move does in a step (Moves), and the next cell (Next): choices that read the tables and write nothing.
pub mod Moves
pub mod Next
