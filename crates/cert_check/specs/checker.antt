-- What the checker judges by, and what its verdict means, in the order of reading.
pub mod Covering
pub mod Beginning
pub mod InForm
pub mod Valid
pub mod Opening
pub mod Sound
pub mod MarkedStart
-- what only serves clauses inside the crate
pub mod Passing
