-- The laws that the functions' proofs cite, in the order of the argument.
pub mod PrepareLaws
pub mod HostDemands
pub mod SearchingLaws
