pub mod Numbers
pub mod Lines
pub mod Texts
pub mod Read
pub mod Cases
