pub mod Places
pub mod Singles
pub mod Finds
pub mod Puts
pub mod Papers
pub mod Shows
pub mod Drawings
pub mod Asks
