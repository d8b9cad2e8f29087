-- What the functions inside this crate ask of each other and tell; none of it is promised to a caller.
pub mod Asked
pub mod Claims
pub mod Halves
pub mod NearValues
pub mod Orders
