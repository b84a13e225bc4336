pub mod Blend
pub mod Lawful
pub mod Filled
pub mod Called
