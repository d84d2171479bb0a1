-- What stands between two calls, and what each call makes of it (Standing); what it means that a call leaves that (Leaves).
pub mod Standing
pub mod Leaves
