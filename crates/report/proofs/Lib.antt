-- The laws that the functions' proofs cite, in the order of the argument.
pub mod Numerals
pub mod Printing
pub mod Steps
pub mod Reports
pub mod Printed
