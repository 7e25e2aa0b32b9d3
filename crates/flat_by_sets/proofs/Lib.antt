mod Frame
pub mod Numbers
