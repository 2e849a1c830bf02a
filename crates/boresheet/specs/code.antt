-- The reader that decides the form of a file of readings. No part of it must be believed.
pub mod Readings
