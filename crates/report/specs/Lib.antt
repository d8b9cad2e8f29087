-- What the program prints, as definitions over the rules of the crate `order`, and what this crate's functions promise.
pub mod Decimals
pub mod Texts
pub mod Promises
pub mod Inside
