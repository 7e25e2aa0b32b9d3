pub mod Told
pub mod Held
pub mod Added
pub mod Histories
