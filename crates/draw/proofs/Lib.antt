pub mod Strokes
pub mod Stamped
