pub mod Counts
pub mod Spares
pub mod Blocks
pub mod Walks
pub mod Changes
pub mod Concerned
pub mod Allotted
pub mod Marks
