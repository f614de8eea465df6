-- Why no text answers several patterns as is said where their watches are closed.
pub mod ByteKinds
pub mod Watching
pub mod ClosedSets
pub mod WatchSteps
