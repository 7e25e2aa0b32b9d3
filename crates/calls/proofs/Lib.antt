pub mod FlatHeader
pub mod Scales
pub mod Crosses
