-- What the results of the inner functions mean. No part of it must be believed.
pub mod Units
pub mod RootSteps
pub mod Sizes
