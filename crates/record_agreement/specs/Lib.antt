pub mod Widths
pub mod Calls
pub mod Accepted
pub mod Results
pub mod Holding
pub mod Theorems
