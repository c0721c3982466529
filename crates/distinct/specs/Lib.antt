-- KEYS BY NUMBER, each a text between two places of a room: in chains, in order, and a window of them at a time. Assumes nothing.
pub mod Names
pub mod Same
pub mod Chains
pub mod Ranks
pub mod Roads
pub mod Window
pub mod Windows
pub mod Entering
pub mod Shown
