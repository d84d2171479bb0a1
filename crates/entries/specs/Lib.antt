-- What the inner functions over the tables rest on and what they leave: the aim of a search (Aims), their promise (Became), the fresh start (Begin), and the cell that a parent code names (Parents).
pub mod Aims
pub mod Became
pub mod Begin
pub mod Parents
