-- What reading and writing promise to a C host.
pub mod Promises
