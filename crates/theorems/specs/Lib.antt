pub mod Proved
pub mod Borders
pub mod WrongReaders
pub mod Writing
pub mod Upgrading
pub mod Overlaying
pub mod Grouping
pub mod Storing
