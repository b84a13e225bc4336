pub mod Store
pub mod Painting
pub mod Lawful
