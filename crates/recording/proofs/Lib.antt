-- The laws that the functions' proofs cite, in the order of the argument; the last two are for callers.
pub mod Marks
pub mod Rows
pub mod Readings
pub mod TrailerLaws
pub mod ReadBack
pub mod Writings
pub mod RoundTrips
pub mod WritingExamples
