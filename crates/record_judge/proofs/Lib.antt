pub mod Beginning
pub mod Rooms
pub mod Deciding
pub mod Taking
pub mod OneMore
