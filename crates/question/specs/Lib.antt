-- What the words of a program come to.
pub mod Hears
