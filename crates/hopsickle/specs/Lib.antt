pub mod Customer
pub mod Alike
pub mod Sets
