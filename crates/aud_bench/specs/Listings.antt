-- What is listed, and the lines that answer it.
pub use Rattle.aud_debug.specs.declared.lines.Lines.{Lines}
pub use Rattle.aud_debug.specs.declared.listing.Listing.{Listing}
pub use Rattle.aud_debug.specs.declared.listing.Listing.TheVariants.{Moves, Tasks, Queues, Variables, Objects, Waits}
