-- States stay such as can be written down.
pub mod Speaking
pub mod Naming
pub mod Saying
pub mod SpeakingPieces
pub mod SpeakingFound
pub mod RisingChoices
pub mod CountedLines
pub mod RisingTexts
pub mod Forming
pub mod GivenBytes
pub mod FormingPieces
pub mod StatesFormed
