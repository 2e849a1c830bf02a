-- What the functions of the check answer.
pub mod FirstLines
pub mod Newest
pub mod Walking
