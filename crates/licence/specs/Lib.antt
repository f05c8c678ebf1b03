pub mod Limit
pub mod Row
pub mod Laws
pub mod Stuffing
