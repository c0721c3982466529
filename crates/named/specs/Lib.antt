pub mod Flat
pub mod Lie
pub mod Gives
pub mod Every
