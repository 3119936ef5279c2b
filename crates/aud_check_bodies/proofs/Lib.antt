mod Rows
mod Scalars
mod FlowRows
mod BlockRows
mod ProcedureRows
mod TaskRows
mod EntryRows
mod SelectRows
pub mod Parts
pub mod Shown
pub mod Declared
pub mod Walked
pub mod Bodies
pub mod ObjectBodies
pub mod Functions
pub mod Scoping
pub mod Called
pub mod Passing
pub mod Aborting
pub mod Kept
pub mod Rendezvous
