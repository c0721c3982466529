-- What several proofs use.
pub mod Outs
pub mod Spans
pub mod Names
pub mod Turns
pub mod Blocks
pub mod Looking
pub mod Lining
pub mod Colons
pub mod Containers
pub mod Documents
pub mod Noting
pub mod NotingBlocks
pub mod NotingWhole
