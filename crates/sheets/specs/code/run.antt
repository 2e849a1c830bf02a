-- What the functions of the run answer.
pub mod Slots
pub mod Floats
pub mod Known
pub mod Evaluating
pub mod Writing
pub mod Keeping
pub mod Apart
pub mod Wholes
pub mod Running
