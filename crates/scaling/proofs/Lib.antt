pub mod Signed
pub mod Whole
pub mod Quotient
pub mod Samples
