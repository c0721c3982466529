pub mod Reads
pub mod Takes
pub mod Runs
pub mod Going
pub mod Rest
pub mod Value
pub mod Plains
pub mod Pieces
pub mod Comments
pub mod Marks
mod Vectors
