pub mod Counted
pub mod Held
