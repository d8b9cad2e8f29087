-- What an answer is to a C host: one number, and a search's lists and counts as bytes.
pub mod Results
pub mod Answers
