-- The laws that the functions' proofs cite, in the order of the argument.
pub mod SampleSteps
pub mod LastNearest
pub mod NearestByValue
pub mod Values
pub mod ClaimLaws
pub mod Offsets
pub mod OwnTables
pub mod Stretches
pub mod Turns
pub mod ForeignEntries
pub mod Promised
