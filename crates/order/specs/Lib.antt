-- The rules of docs/RULES.md as definitions, in the order of its headings, each of which names its file. `Equivalence` and
-- `EntryTest` are no rules: the first names what the laws rest on, the second what the code's test of a place does.
pub mod Sizes
pub mod Relations
pub mod Lost
pub mod Isomorphic
pub mod Equivalence
pub mod Neighbours
pub mod PlaceTest
pub mod EntryTest
pub mod Witnesses
pub mod Agree
pub mod Duels
pub mod Sweeping
pub mod Written
pub mod Demands
pub mod Recordings
pub mod Refusals
pub mod Answers
