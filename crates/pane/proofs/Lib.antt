pub mod Drawings
pub mod Kept
