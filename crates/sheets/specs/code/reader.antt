-- The reader, and what its functions' answers mean.
pub mod Codes
pub mod Reader
pub mod Views
