pub mod Layers
pub mod Slots
pub mod Desk
pub mod Run
pub mod House
pub mod Apart
pub mod Laws
pub mod Examples
