-- The rules of frames as definitions, over those of the crate `order`, and what a search of a frame promises; under Inside, what the
-- functions of this crate say to each other.
pub mod Frames
pub mod FramePromise
pub mod Inside
