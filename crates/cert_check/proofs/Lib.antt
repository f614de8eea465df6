pub mod verdicts
pub mod texts
