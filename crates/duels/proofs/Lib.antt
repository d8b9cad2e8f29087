-- The laws that the functions' proofs cite, in the order of the argument, and what callers need.
pub mod CodeLaws
pub mod MeetingByEntries
pub mod StackLaws
pub mod LostRuns
pub mod Promised
