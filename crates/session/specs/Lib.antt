-- The public calls open and place, and what every call on a session shares: answers and refusals (Refusals), what each call promises for every input (Promises).
pub mod Refusals
pub mod Promises
