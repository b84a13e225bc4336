pub mod Phases
pub mod Bitmaps
pub mod Moves
pub mod Laws
