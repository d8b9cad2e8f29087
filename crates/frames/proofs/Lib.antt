-- The laws that the functions' proofs cite, in the order of the argument, and what callers need.
pub mod RowNumbers
pub mod StepLaws
pub mod MaskLaws
pub mod ListingLaws
pub mod OffsetLaws
pub mod PatchLaws
pub mod FrameLaws
pub mod WidthAlone
pub mod OneRow
pub mod FrameExamples
