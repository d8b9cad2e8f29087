-- Grey levels as samples, and what the call on them promises.
pub mod Levels
pub mod Promises
