-- Laws that the proofs of this crate cite. Assumes nothing.
mod Left
mod Stores
