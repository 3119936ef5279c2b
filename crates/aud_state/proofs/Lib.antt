pub mod CallsGiven
pub mod Giving
pub mod Hitting
pub mod Numbered
pub mod TaskLaws
pub mod Waking
