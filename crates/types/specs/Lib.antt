pub mod Bits
pub mod BitLaws
pub mod Quality
pub mod Time
pub mod Laws
