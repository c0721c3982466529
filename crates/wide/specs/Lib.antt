pub mod Tests
pub mod Walk
pub mod Cut
pub mod Near
pub mod Copies
pub mod Keys
