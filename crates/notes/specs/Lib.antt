pub mod Flat
pub mod Noted
pub mod Lie
pub mod Handed
pub mod Notes
pub mod Bare
