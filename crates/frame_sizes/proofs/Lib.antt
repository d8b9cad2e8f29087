-- The laws that the functions' proofs cite, and what callers need.
pub mod FrameRows
