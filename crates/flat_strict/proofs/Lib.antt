pub mod Strict
pub mod OwnArrays
pub mod Found
