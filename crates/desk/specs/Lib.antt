pub mod Desks
pub mod Carried
pub mod Moves
