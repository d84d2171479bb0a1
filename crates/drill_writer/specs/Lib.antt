-- A drill and the file that is written for it (Drill), and what the call that writes it promises (Promise).
pub mod Drill
pub mod Promise
