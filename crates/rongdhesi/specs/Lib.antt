-- The library's calls for other languages: an answer told in numbers (Told; Reasons for what is asked of a plan alone), and the letter's demands in these numbers (Demanded).
pub mod Told
pub mod Demanded
pub mod Reasons
