pub mod AtHand
pub mod OwnCells
pub mod Executed
pub mod Instructions
pub mod Closing
pub mod ElementLaws
pub mod Newest
pub mod Marking
