pub mod Puts
pub mod Rows
pub mod Spread
pub mod Fields
pub mod Ends
pub mod Measured
