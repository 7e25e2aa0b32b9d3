pub mod Lossless
pub mod Samples
pub mod Ends
pub mod Halves
pub mod Rounding
