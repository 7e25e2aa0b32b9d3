pub mod Described
pub mod Accepted
pub mod Holding
pub mod Results
pub mod Absent
pub mod Theorems
pub mod Sizes
