pub mod Alike
pub mod spelled
pub mod meaning
pub mod reader
