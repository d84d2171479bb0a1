-- The drill file of document 01: its trailer, its actions, the number by which a badly formed file is refused (File), the number by which any file is (Numbers),
-- and the file that is printed there (Whole).
pub mod File
pub mod Numbers
pub mod Whole
