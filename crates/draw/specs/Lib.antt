pub mod Touches
pub mod Sources
pub mod Areas
pub mod Stamps
