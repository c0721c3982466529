-- WHAT IS WRITTEN IS A DOCUMENT. Assumes nothing.
pub mod Spells
pub mod Each
pub mod Hexes
pub mod Lead
pub mod Shown
pub mod Same
pub mod Strings
pub mod Numbers
pub mod Integers
pub mod Leaves
pub mod Inline
pub mod Laid
pub mod Blocks
pub mod Unspanned
pub mod Document
pub mod Vectors
pub mod Written
