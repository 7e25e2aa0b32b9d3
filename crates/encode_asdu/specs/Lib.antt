pub mod Size
pub mod Samples
