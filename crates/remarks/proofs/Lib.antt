-- lemmas on what is told after another
pub mod OrLemmas
pub mod KindLemmas
pub mod TellLemmas
-- worked rows
pub mod Worked
pub mod ScriptRows
