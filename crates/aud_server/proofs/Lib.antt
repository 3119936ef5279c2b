pub mod ArgumentLaws
