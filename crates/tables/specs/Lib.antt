-- The session record and the lent tables (Lent), what makes them sound (Sound), the rules that the check walks over, with the first place at fault (Rules),
-- and what the answer of a call tells (Told). Asked holds the inner notions that only the check's private functions promise each other.
pub mod Lent
pub mod Sound
pub mod Rules
pub mod Told
pub mod Asked
