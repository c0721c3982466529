pub mod Bits
pub mod Sieve
pub mod More
pub mod Shown
pub mod Plain
