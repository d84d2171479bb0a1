-- Which cells the hunter can reach, and which shut moves lead out of them. The first four files are what is promised, in this order; the last is what the inner functions rest on.
pub mod Bits
pub mod Reachable
pub mod Outs
pub mod Promise
pub mod Filling
