pub mod Told
pub mod Contract
pub mod Stores
pub mod Forest
pub mod Laws
pub mod Indent
