-- What the tests of texts say, and its laws: Opens, Spelt and Script for UTF-8; Float, Runs, Decimals and Places for floats; Scalars for the kinds.
pub mod Digits
pub mod Opens
pub mod Spelt
pub mod Script
pub mod Float
pub mod Runs
pub mod Decimals
pub mod Places
pub mod Scalars
pub mod Whole
pub mod Integers
