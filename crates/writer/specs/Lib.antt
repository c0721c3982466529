-- WHAT THE WRITER'S CODE PROMISES, and the laws by which it keeps it. Assumes nothing.
pub mod Puts
pub mod Allowed
pub mod Codes
pub mod Runs
pub mod Leaves
pub mod Flat
pub mod Children
pub mod Lines
pub mod Laid
pub mod Bound
pub mod Wrote
