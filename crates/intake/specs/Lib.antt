pub mod Words
pub mod Answer
pub mod Refusals
pub mod Holds
pub mod Laws
pub mod Held
pub mod Told
