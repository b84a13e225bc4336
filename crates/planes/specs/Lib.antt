pub mod Layout
pub mod Means
pub mod Lines
pub mod Laws
pub mod Keep
