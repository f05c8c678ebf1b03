-- Laws that the proofs of this crate cite, and the round trip. Assumes nothing.
mod Spelling
mod Stores
pub mod RoundTrip
