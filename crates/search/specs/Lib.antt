-- The search: what the call promises for every input.
pub mod Promise
