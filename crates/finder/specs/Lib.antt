pub mod Placing
pub mod Rising
pub mod Leading
pub mod Standing
pub mod Tried
pub mod Searched
pub mod Outcome
pub mod Steps
