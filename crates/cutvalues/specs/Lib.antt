pub mod Bridge
pub mod Runs
pub mod Both
