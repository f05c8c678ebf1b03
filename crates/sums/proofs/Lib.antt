-- Laws that the proofs of this crate and those above cite. Assumes nothing.
mod Adding
pub mod Loads
pub mod Start
pub mod Moving
