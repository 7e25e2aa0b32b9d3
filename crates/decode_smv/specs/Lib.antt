pub mod Samples
pub mod Asdus
pub mod Pdu
pub mod Told
pub mod Frame
