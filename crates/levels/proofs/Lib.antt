-- The laws that the functions' proofs cite, in the order of the argument.
pub mod LevelLaws
pub mod Promised
