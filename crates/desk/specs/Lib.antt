pub mod Ledger
pub mod Replies
pub mod Outcome
pub mod History
pub mod Flat
pub mod Kept
