-- What holds through a rule.
pub mod Needs
pub mod Addresses
pub mod Effects
pub mod Steps
