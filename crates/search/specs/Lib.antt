-- What a search answers and promises, over the rules of the crate `order`; under Inside, what the functions of this crate say to each
-- other.
pub mod SearchPromise
pub mod Inside
