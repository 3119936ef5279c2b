pub mod MoveLaws
pub mod Results
pub mod Running
pub mod StepLaws
pub mod Ticking
pub mod ViewLaws
