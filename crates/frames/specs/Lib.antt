pub mod Positions
pub mod Ellipsoids
pub mod Radii
pub mod Orientations
pub mod Vectors
pub mod Rotations
pub mod Frames
