pub mod Frames
pub mod Plans
pub mod Areas
pub mod Arranged
pub mod Counts
pub mod Laws
