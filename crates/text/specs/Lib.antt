-- What a text is (Text), and what it means that a text is put into a lent buffer (Put).
pub mod Text
pub mod Put
