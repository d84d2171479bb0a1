-- The public call that changes a move: its refusals (Refusals), what a changed move asks of the cell that it enters (Effects), and what the call promises for every input (Promise).
pub mod Refusals
pub mod Effects
pub mod Promise
