-- Theorems on what is written down by hand in specs/. Assumes nothing.
pub mod Cases
pub mod LastRoom
pub mod Idlers
pub mod DeskIdlers
pub mod Shown
