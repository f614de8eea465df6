pub mod Editors
pub mod Earlier
pub mod Rewriting
pub mod Scans
-- these only serve clauses inside the crate
pub mod Searches
pub mod Courses
