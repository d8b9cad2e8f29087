-- The laws that the functions' proofs cite, in the order of the argument, and what callers need.
pub mod Signs
pub mod Digits
pub mod Entries
pub mod ReadBack
pub mod SampleBytes
pub mod Handing
