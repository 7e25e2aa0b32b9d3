pub mod Theorems
pub mod First
pub mod Store
pub mod TwoArrays
pub mod Example
