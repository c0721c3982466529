pub mod Texts
pub mod Pieces
pub mod Left
pub mod Spelling
pub mod Standing
pub mod Reading
pub mod Hash
