pub mod Judged
pub mod Walk
pub mod Fine
pub mod Outcome
