-- What the look for a lost stitch answers, over the rules of the crate `order`; under Inside, what the functions of this crate say to each
-- other.
pub mod Ends
pub mod Inside
