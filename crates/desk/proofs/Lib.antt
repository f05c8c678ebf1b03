-- Laws that the proofs of this crate and those above cite, and what is promised in specs/. Assumes nothing.
mod Rows
mod Granting
pub mod Laws
pub mod Turns
pub mod Outcome
pub mod Kept
pub mod HeldRows
pub mod Leaving
