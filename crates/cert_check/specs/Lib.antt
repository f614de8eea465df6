-- what a reader has to believe, in the order of reading
pub mod Certificates
pub mod checker
pub mod text
