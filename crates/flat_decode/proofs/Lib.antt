pub mod Writes
pub mod Fields
pub mod Parts
pub mod Head
pub mod Asdus
pub mod SamplesOf
pub mod Told
pub mod Frame
