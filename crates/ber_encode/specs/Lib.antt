pub mod Put
pub mod Size
pub mod Told
