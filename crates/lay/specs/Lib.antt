-- WHAT THE CODE OF THE OVERLAY ASKS AND PROMISES, function by function. Assumes nothing.
pub mod Targets
pub mod Keeping
pub mod Matching
pub mod Gathering
pub mod Probing
pub mod Windows
pub mod Laying
pub mod Lowering
pub mod Root
