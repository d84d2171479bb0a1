pub mod Demands
pub mod History
