-- What the call on two windows answers and promises, over the rules of the crate `order`.
pub mod Answers
pub mod Promises
