pub mod Cases
pub mod Again
