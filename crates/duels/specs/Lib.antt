-- What the duels answer and promise, over the rules of the crate `order`; under Inside, what the functions of this crate say to each other.
pub mod DuelPromise
pub mod Inside
