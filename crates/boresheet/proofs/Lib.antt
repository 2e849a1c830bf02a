pub mod Counting
pub mod ArgumentSteps
pub mod ReadingSteps
pub mod MessageSteps
pub mod Written
pub mod Spelled
pub mod FormatLaws
pub mod ReadingNumbers
