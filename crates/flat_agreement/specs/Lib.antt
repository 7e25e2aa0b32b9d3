pub mod Same
pub mod Lent
pub mod Calls
pub mod Theorems
