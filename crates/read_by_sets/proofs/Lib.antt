mod First
pub mod Sets
mod Whole
mod Frame
