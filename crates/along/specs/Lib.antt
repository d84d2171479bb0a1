-- What the call that gives the running cost along a list of cells promises.
pub mod Along
