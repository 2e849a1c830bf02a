pub mod Arguments
pub mod Format
pub mod Messages
pub mod code
