-- Laws that the proofs of this crate cite. Assumes nothing.
mod Tests
mod Runs
mod OneKey
mod Filling
mod Checks
mod Joined
pub mod Outcome
