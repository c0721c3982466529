pub mod Members
pub mod Contract
pub mod Blamed
