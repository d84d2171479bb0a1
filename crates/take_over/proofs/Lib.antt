pub mod TakeOverLaws
