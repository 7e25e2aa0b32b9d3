pub mod Told
pub mod First
pub mod Whole
pub mod Alike
