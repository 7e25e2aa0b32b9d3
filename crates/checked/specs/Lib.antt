pub mod Lengths
pub mod Whole
pub mod Alike
