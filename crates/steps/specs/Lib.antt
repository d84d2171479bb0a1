-- The loop of steps over the tables (Loop), and what its steps rest on (Ready).
pub mod Ready
pub mod Loop
