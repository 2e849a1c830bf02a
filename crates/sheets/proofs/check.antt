-- Laws of the check's walk, and of its code.
pub mod KindExact
pub mod LinesExact
pub mod FirstLineSteps
pub mod ReadingLaws
pub mod NewestLaws
pub mod PassedLaws
pub mod KindSteps
pub mod LineKindSteps
pub mod AdmitSteps
pub mod SecondLine
