-- What a sweep answers and promises, over the rules of the crate `order`, and what its functions ask of each other.
pub mod Sweeps
pub mod Inside
