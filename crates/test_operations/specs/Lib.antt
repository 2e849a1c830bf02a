pub mod Words
pub mod Entries
pub mod Rows
pub mod NumbersTable
pub mod Values
pub mod FramesTable
pub mod Direct
