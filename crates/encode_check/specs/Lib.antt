pub mod Fits
pub mod Checked
