-- what a reader has to believe
pub mod Source
