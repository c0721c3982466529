-- What several proofs use.
pub mod Chars
pub mod Rests
pub mod Plains
pub mod KeyBytes
pub mod Lines
pub mod Taking
pub mod DigitPassing
