-- The laws that the functions' proofs cite, in the order of the argument, and what callers need.
pub mod Testing
pub mod Listing
pub mod Promised
pub mod Same
