-- what a reader has to believe
pub mod Subcommands
pub mod Starts
pub mod Several
pub mod Letters
pub mod Chains
pub mod Wanted
pub mod Words
pub mod Job
pub mod Meant
pub mod Diffs
pub mod Program
