-- The rows of the kind table, as the code takes them.
pub mod KindCodes
pub mod Applied
