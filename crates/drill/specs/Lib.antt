-- What a drill means: the number by which a change is refused (Numbers), the standing after each action and the line that it prints (Play),
-- the whole output of a file (Output), document 01's cases of it (Cases), and what the functions that play it promise (Promises).
pub mod Numbers
pub mod Play
pub mod Output
pub mod Cases
pub mod Promises
