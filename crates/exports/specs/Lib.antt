pub mod Exports
pub mod Unique
