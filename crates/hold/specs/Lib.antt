pub mod Spots
pub mod Held
pub mod Bitmaps
