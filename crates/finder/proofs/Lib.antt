pub mod Turning
pub mod Sorted
pub mod ByBand
pub mod Lining
pub mod Waiting
pub mod Search
pub mod Turns
pub mod Joined
mod Columns
pub mod Standing
pub mod Right
pub mod Outcome
