pub mod Steps
pub mod Bounds
mod Signed
pub mod Put
pub mod Asdus
pub mod Pdu
pub mod Whole
pub mod Frame
mod Fields
