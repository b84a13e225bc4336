pub mod Joins
pub mod Panes
pub mod Sounds
