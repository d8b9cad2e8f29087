-- The laws that the functions' proofs cite, in the order of the argument, and what callers need.
pub mod Verdicts
pub mod VerdictRows
pub mod LengthLaws
