-- What a reader of the queue's promise must believe: the order of cells (Order), and the tables with what the calls do to them (Queue, and over the lent tables as one struct Lent).
-- Rules holds what a check looks at, one place and one cell at a time.
-- Sift holds the inner notions that only the queue's private functions promise each other.
pub mod Order
pub mod Queue
pub mod Lent
pub mod Rules
pub mod Sift
