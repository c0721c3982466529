pub mod Loading
pub mod Testing
pub mod Rooms
