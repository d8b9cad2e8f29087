-- What the calls of a C host promise, on the bytes themselves, and what the functions inside ask of each other.
pub mod HostPromises
pub mod Inside
