-- What a search answers (Answer), and the way shown: where the parents lead, and what is written of it (Way).
pub mod Way
pub mod Answer
