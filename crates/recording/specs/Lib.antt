-- What the calls of this crate answer and promise, over the rules of the crate `order`, and what its functions ask of each other.
pub mod Trailers
pub mod Recorded
pub mod Readings
pub mod Promises
pub mod Inside
