pub mod CallLaws
pub mod Lists
