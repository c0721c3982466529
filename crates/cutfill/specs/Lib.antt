pub mod Placed
pub mod Wholes
pub mod Trees
pub mod Filling
pub mod Fields
pub mod Steps
