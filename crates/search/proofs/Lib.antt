-- The laws that the functions' proofs cite, in the order of the argument.
pub mod SearchVerdicts
pub mod OwnDuels
pub mod SteadyLaws
pub mod SweepSteps
pub mod Climbing
pub mod RunLaws
pub mod WrittenOut
pub mod SearchLaws
