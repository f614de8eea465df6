pub mod Reading
pub mod Appending
pub mod Holding
pub mod Calls
