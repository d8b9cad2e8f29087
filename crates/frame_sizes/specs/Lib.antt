-- The sizes of frames and patches, over the rules of the crate `order`: where a patch is tried, what is refused, and what the look at
-- the sizes promises.
pub mod FrameSizes
pub mod Tried
