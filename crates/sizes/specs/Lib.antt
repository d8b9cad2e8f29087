-- What the looks at patterns and lengths answer and promise, over the rules of the crate `order`.
pub mod Lengths
