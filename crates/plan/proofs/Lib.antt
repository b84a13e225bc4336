pub mod Turns
pub mod Sights
pub mod Orders
pub mod Rotations
pub mod Sifts
pub mod Patches
pub mod Regroup
pub mod Lawful
