pub mod Entries
pub mod Tables
pub mod Allots
pub mod Blocks
pub mod Walks
pub mod Changes
