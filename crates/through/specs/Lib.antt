-- What the call that gives the least cost of any walk through a named move promises.
pub mod Through
