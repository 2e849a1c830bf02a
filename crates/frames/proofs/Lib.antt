pub mod PositionLaws
pub mod FitLaws
pub mod BearingLaws
pub mod FrameLaws
pub mod RadiusLaws
pub mod Examples
pub mod Computed
