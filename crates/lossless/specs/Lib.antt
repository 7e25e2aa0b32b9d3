pub mod Bounds
pub mod Rounding
pub mod Halves
