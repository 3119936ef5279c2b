pub mod ServingLaws
pub mod SessionLaws
pub mod StreamLaws
