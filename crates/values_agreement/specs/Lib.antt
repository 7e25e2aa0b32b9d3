pub mod Calls
pub mod Back
pub mod Read
pub mod Records
pub mod Flat
