-- What the search of a frame promises to a C host.
pub mod Promises
