-- The letter's three demands of the public calls (Demands), and of every history of them (History).
pub mod Demands
pub mod History
