-- The theorems about the bus. Assumes nothing.
pub mod ByHand
pub mod Frames
pub mod Spacing
pub mod Compete
pub mod Trace
pub mod Competing
pub mod Enough
pub mod Coming
pub mod Waiting
pub mod Serve
pub mod Kept
pub mod Witness
