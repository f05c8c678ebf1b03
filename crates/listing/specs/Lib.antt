pub mod Text
pub mod Listed
pub mod TextLaws
pub mod Laws
pub mod Outcome
