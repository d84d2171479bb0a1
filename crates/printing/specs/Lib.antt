-- What the functions that print a drill promise.
pub mod Promises
