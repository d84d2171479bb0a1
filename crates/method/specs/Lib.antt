-- Basic Moving Target D* Lite as document 01 fixes it, over an abstract graph. Read the files in this order.
pub mod Numbers
pub mod Graph
pub mod Tables
pub mod Steps
pub mod Loop
pub mod Course
pub mod Session
pub mod Sound
pub mod Walk
pub mod Change
pub mod Growth
pub mod During
