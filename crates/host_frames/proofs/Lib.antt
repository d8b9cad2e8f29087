-- The laws that the function's proof cites, and what callers need.
pub mod HandedOn
