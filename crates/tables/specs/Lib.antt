-- What the calls of this crate answer and promise, over the rules of the crate `order`; under Inside, what its functions say to each
-- other.
pub mod Promises
pub mod Inside
