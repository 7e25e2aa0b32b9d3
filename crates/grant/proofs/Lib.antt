pub mod Walk
pub mod Steps
pub mod HiddenOctets
pub mod Full
pub mod Example
