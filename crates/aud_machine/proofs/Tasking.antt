-- Laws of tasks for who shows a machine.
pub use Rattle.aud_tasks.proofs.MoveLaws.Moving.{closable_seen, many}
pub use Rattle.aud_tasks.proofs.Running.Whose.{AreOf, moves_of}
pub use Rattle.aud_tasks.proofs.ViewLaws.Seen.{none_seen, seen_law}
