pub mod Short
pub mod Heads
pub mod Tested
pub mod Walk
pub mod Containers
pub mod Keys
pub mod Filling
pub mod Children
