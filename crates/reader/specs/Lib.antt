pub mod Judged
pub mod Filling
pub mod Cuts
pub mod Windows
pub mod Rounds
pub mod Lent
