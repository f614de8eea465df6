-- Lemmas and worked rows on which bytes spell which script.
mod ScriptRows
mod SpellingRows
pub mod ReadableLemmas
