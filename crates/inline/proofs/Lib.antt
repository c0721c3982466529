-- What several proofs use.
pub mod Passing
pub mod Members
pub mod Listing
pub mod Containers
pub mod Choices
pub mod Bared
pub mod Noting
