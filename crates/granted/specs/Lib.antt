pub mod Shown
pub mod Whole
pub mod Customer
