pub mod Lengths
pub mod Whole
