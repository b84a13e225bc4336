pub mod Runs
pub mod Writing
pub mod Means
pub mod Laws
pub mod Rows
pub mod Spell
pub mod Keep
