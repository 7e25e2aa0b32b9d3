pub mod Records
pub mod Checked
